pub mod Runs
pub mod Units
pub mod Parts
pub mod Answers
