pub mod Elaborated
pub mod Positions
pub mod Names
pub mod Sources
