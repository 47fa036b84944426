pub mod Answered
pub mod Stages
pub mod Readings
pub mod Designs
pub mod Fronts
