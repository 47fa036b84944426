pub mod Held
pub mod Laid
pub mod Bare
pub mod Bounds
