pub mod Answers
pub mod Findings
pub mod Pieces
pub mod Steps
