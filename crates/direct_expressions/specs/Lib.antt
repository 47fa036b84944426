pub mod Machine
pub mod Stack
