pub mod Owning
pub mod Resolved
pub mod Exact
