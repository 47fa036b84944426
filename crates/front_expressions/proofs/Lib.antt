pub mod Items
pub mod Behind
pub mod Picks
pub mod Primaries
pub mod Sums
