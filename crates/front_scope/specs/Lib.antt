pub mod Positions
pub mod Resolves
pub mod Judges
