pub mod Completed
pub mod Kept
pub mod NewLanes
pub mod NoteCopies
pub mod Telling
