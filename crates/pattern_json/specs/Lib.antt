pub mod PatternForm
pub mod ClaimForm
pub mod Words
pub mod Found
pub mod Pairs
pub mod Shortened
pub mod Steps
