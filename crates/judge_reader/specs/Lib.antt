pub mod FirstOfList
pub mod LongRefusals
pub mod Small
pub mod Steps
