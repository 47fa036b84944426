pub mod Steps
pub mod Turns
pub mod Fields
pub mod Walks
