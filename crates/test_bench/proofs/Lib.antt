pub mod RowLaws
pub mod Agreement
