pub mod Ruled
pub mod RuleChain
mod Spelling
pub mod Laying
pub mod Fronting
pub mod StageFacts
pub mod Told
