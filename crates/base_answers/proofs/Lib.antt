pub mod Refusals
pub mod Narrow
pub mod Told
