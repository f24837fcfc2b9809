pub mod Holds
pub mod JudgeErrors
pub mod ByCertificate
pub mod OfMemory
pub mod Each
pub mod LongTruth
pub mod MadeCertificates
pub mod InRange
