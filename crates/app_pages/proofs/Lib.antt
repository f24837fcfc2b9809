mod Joined
pub mod PageFaults
