pub mod Stages
pub mod Large
pub mod Equations
pub mod Images
pub mod Nine
pub mod Batches
pub mod Divisions
