pub mod Storing
pub mod ReadingLaws
pub mod RowLaws
pub mod PrintingLaws
pub mod ShowLaws
pub mod ChunkLaws
pub mod Short
pub mod FillLaws
pub mod Whole
pub mod Lines
pub mod Refused
pub mod Program
mod Examples
