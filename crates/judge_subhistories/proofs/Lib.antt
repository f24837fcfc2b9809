pub mod Exclusions
pub mod Wholes
