pub mod Advice
pub mod ByAdvice
pub mod ByOrder
pub mod ByProgramOrder
pub mod ByStamp
pub mod MemoryAdvice
