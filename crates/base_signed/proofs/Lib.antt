pub mod Range
pub mod Types
pub mod Division
