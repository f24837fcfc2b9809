pub mod Cuts
pub mod LookOrder
pub mod Runs
pub mod Seals
pub mod Steps
