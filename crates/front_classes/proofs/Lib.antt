pub mod Codes
pub mod Members
pub mod Rows
pub mod Found
pub mod Rest
pub mod Steps
pub mod Exact
