pub mod Telling
pub mod TellLoop
