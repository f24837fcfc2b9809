pub mod BoardErrors
pub mod Boards
pub mod CaseFiles
pub mod Events
pub mod Steps
