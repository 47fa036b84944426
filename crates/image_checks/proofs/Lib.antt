pub mod Positions
pub mod Opened
pub mod Fields
pub mod Steps
pub mod Judged
