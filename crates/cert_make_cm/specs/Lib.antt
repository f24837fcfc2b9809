pub mod Turns
pub mod ByTurns
pub mod Steps
