pub mod Tokens
pub mod Postfix
pub mod Items
pub mod Entries
pub mod Rows
pub mod Headings
pub mod Arrays
