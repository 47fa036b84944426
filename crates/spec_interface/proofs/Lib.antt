pub mod Compile
pub mod Lending
pub mod SectionsLent
pub mod Entry
pub mod CInterface
pub mod Batch
