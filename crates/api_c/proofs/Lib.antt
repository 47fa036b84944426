pub mod RecordLaws
pub mod CallLaws
pub mod NarrowLaws
