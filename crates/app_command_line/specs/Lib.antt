pub mod Numerals
pub mod Expected
pub mod Options
pub mod CommandLine
pub mod Shown
pub mod Misuses
pub mod Steps
