pub mod Header
pub mod Lines
pub mod Positions
