pub mod Failure
pub mod Writing
pub mod Endings
pub mod Steps
