pub mod Kinds
pub mod KindNames
pub mod Paths
pub mod Derivations
pub mod Patterns
pub mod Steps
