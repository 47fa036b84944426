pub mod Putting
pub mod Listed
pub mod Accepting
pub mod Tally
