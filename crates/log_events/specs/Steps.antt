pub mod CallKinds
pub mod Outcomes
pub mod Chains
pub mod Tallies
