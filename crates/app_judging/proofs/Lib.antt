pub mod DecidedLaws
pub mod DecisionLaws
pub mod JudgedLaws
