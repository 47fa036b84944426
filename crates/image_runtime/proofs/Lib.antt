pub mod OpenedImage
pub mod Whole
pub mod Start
pub mod Stored
