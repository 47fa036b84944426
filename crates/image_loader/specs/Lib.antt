pub mod Sections
pub mod Code
pub mod Lines
pub mod Open
