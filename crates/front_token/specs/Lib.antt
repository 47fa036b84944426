pub mod Kinds
pub mod Places
pub mod Reserved
pub mod Fixed
pub mod Pieces
