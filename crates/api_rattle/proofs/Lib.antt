pub mod LendingLaws
pub mod CallingLaws
pub mod SectionsLent
pub mod TokenLent
