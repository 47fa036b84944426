pub mod Followers
pub mod Reaches
