pub mod PatternDepth
pub mod CertificateDepth
pub mod Openings
pub mod ClaimParts
pub mod Claims
pub mod PatternForms
pub mod LineParts
pub mod LinkParts
pub mod OtherWords
pub mod PatternParts
pub mod Scalars
pub mod Wholes
mod CertificateParts
pub mod CertificateForms
mod KeptLists
mod PairReading
pub mod Shortened
