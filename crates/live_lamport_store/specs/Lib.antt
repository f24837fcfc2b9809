pub mod Laws
pub mod Stamps
