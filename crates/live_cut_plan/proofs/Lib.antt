pub mod Columns
pub mod FoundCounts
pub mod LanePlans
pub mod ListPlaces
pub mod PlanLooks
pub mod Seen
pub mod Standing
pub mod Walked
