pub mod Operations
pub mod Compile
pub mod Lending
pub mod Entry
pub mod CInterface
pub mod Told
pub mod Laws
