pub mod Orders
pub mod Vectors
pub mod BySession
pub mod ProgramOrder
pub mod Schedules
pub mod Topological
pub mod Waits
pub mod Steps
