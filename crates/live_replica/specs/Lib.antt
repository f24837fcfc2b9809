pub mod Causality
pub mod Orders
pub mod Replaying
pub mod ReplicaErrors
pub mod Replicas
pub mod Steps
pub mod Updates
