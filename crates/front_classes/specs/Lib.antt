pub mod Codes
pub mod Lists
pub mod Held
pub mod Positions
pub mod Judges
