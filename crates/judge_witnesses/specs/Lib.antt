pub mod Renamed
pub mod Relabelled
pub mod Witnesses
