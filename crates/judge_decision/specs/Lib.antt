pub mod LongDecisions
pub mod Steps
pub mod Decisions
