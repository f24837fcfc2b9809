pub mod Faults
pub mod FaultsForm
pub mod Found
pub mod Noted
pub mod Tallies
