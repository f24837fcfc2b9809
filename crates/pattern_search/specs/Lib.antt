pub mod FirstKinds
pub mod Searches
pub mod Steps
