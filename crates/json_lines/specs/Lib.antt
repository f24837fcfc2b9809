pub mod LineHandlers
pub mod Outcomes
pub mod ReadCalls
pub mod WriteCalls
pub mod Lines
pub mod Steps
pub mod LineParts
pub mod LineReaders
