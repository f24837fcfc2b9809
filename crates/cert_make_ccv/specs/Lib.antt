pub mod ByConflicts
