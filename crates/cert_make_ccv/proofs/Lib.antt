pub mod ByRule
pub mod Cyclic
pub mod Explained
pub mod ConflictCertificates
pub mod FirstOperations
