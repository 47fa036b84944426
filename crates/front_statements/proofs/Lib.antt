pub mod Steps
pub mod Picks
pub mod Simple
pub mod Assignments
pub mod Bodies
pub mod Nested
