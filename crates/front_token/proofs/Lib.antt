pub mod Entries
pub mod ByteKinds
pub mod Lower
pub mod RunLaws
pub mod WordLaws
pub mod MarkLaws
pub mod PieceLaws
