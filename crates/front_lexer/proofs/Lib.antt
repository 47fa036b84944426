pub mod Advance
pub mod Filling
pub mod PartLaws
pub mod TokenValues
pub mod LexAnswer
