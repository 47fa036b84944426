pub mod Tokens
pub mod TokenValues
pub mod Answered
