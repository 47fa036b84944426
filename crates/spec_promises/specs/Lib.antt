pub mod Promises
pub mod Places
pub mod Batch
