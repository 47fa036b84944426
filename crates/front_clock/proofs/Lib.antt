pub mod Waiting
pub mod Steps
pub mod First
pub mod Exact
