pub mod Clients
pub mod DriveErrors
pub mod Drives
pub mod Seats
