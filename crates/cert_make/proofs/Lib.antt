pub mod Advices
pub mod InTurn
pub mod Placing
pub mod ReadPieces
pub mod StampedSessions
pub mod WalkedSchedules
