pub mod OperationLines
pub mod TableNames
pub mod Witnesses
