pub mod Rows
pub mod Printing
pub mod Reading
pub mod Stored
pub mod Trace
pub mod Chunks
pub mod Program
