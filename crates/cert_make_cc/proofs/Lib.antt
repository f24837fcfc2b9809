pub mod CutWalks
pub mod CutsGoOn
pub mod SourceLimits
pub mod SourceSchedules
pub mod Explained
pub mod SourceCertificates
