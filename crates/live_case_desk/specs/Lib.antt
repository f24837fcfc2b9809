pub mod Answers
pub mod Files
pub mod Refusals
pub mod Steps
