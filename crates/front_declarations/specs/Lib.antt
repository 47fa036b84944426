pub mod Headers
pub mod Readers
pub mod Rows
