pub mod EffectLaws
pub mod BlockLaws
pub mod StatementLaws
pub mod ResumeLaws
pub mod EntryLaws
