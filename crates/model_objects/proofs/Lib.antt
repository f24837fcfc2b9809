pub mod KeyedLemmas
pub mod RegisterLemmas
pub mod SetLemmas
pub mod TableLemmas
