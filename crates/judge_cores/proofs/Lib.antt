pub mod PartSessions
