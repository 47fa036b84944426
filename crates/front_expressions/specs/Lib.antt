pub mod Put
pub mod Readers
pub mod Tests
