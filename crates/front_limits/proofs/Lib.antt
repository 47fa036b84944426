pub mod Marking
pub mod Held
