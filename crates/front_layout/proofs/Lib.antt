pub mod Folds
pub mod ItemLists
pub mod Lines
pub mod NameRows
pub mod Stored
