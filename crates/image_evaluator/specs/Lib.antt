pub mod Position
pub mod Value
pub mod Operators
pub mod Stack
