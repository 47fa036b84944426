pub mod StackLaws
pub mod StatementLaws
pub mod OperatorLaws
pub mod NameLaws
pub mod ItemLaws
pub mod RowLaws
pub mod Exact
