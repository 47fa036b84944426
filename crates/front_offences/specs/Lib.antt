pub mod Lowest
pub mod Kinded
pub mod Positions
pub mod Laid
pub mod Judged
