mod EmittedLaws
mod SectionsLaws
mod ImageLaws
mod WriteLaws
pub mod Counts
