pub mod DueLaws
pub mod RowLaws
pub mod CallLaws
