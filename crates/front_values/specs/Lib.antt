pub mod Positions
pub mod Judges
