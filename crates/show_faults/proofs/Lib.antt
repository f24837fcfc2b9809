pub mod FaultLists
pub mod FoundParts
pub mod MissedWrites
pub mod Noting
pub mod Pushes
pub mod Tallied
pub mod Tallying
