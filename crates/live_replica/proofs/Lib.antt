pub mod Tallies
pub mod Following
pub mod Checkpoints
pub mod Settling
pub mod Placing
pub mod Keeping
