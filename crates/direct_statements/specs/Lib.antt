pub mod Effects
pub mod Holding
pub mod Standing
pub mod Resuming
pub mod Running
