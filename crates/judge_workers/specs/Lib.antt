pub mod Workers
pub mod Numbers
