pub mod InSessions
