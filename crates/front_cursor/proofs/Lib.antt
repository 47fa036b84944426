pub mod Measures
pub mod Steps
pub mod Arms
pub mod Whole
