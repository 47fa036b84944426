pub mod Types
pub mod Classes
pub mod Order
pub mod Postfix
