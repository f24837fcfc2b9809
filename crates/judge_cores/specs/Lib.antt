pub mod Cores
pub mod Gathered
pub mod Parts
