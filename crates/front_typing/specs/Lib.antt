pub mod Operators
pub mod Expressions
pub mod Positions
pub mod Judges
