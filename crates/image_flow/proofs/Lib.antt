pub mod Sets
pub mod FollowersLaws
pub mod ReachesLaws
