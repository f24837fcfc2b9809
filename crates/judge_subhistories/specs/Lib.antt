pub mod Cores
pub mod WithoutVariables
