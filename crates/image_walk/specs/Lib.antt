pub mod Fields
pub mod Moves
pub mod Follow
pub mod Held
