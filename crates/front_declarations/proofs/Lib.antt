pub mod Steps
pub mod NameLists
pub mod Values
pub mod Picks
pub mod RowLists
pub mod Groups
pub mod GroupLists
