pub mod RunLaws
pub mod PartLaws
pub mod Texts
