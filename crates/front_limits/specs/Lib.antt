pub mod Flags
pub mod Words
