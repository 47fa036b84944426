pub mod CheckLaws
pub mod CallLaws
pub mod TallyArrays
