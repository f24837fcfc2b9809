pub mod Lanes
pub mod RecordErrors
pub mod Recorders
pub mod Refusals
pub mod Sessions
