pub mod Ranked
pub mod Walked
pub mod Outcome
