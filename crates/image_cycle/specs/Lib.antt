pub mod Ran
pub mod Moves
