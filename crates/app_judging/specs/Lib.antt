pub mod Decided
pub mod Judgements
pub mod NamedKinds
