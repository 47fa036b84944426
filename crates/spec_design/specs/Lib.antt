pub mod Types
pub mod Expression
pub mod Statement
pub mod Process
pub mod Spelling
