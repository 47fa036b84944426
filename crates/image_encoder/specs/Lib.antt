pub mod Emitted
pub mod Outcome
