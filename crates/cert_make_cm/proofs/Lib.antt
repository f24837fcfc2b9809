pub mod TurnPlaces
pub mod TurnsKept
pub mod TurnsStarted
pub mod RisingTurns
pub mod TurnSchedules
pub mod TurnPieces
pub mod Explained
pub mod MemoryMet
