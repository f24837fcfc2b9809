pub mod Completeness
pub mod Consistent
pub mod ExplainingLists
pub mod Firsts
pub mod Orders
pub mod ThinAir
pub mod Decided
pub mod WithoutLimits
