-- What single functions say to one another, in terms of their own data: no promise to a reader rests on it.
pub mod Choices
pub mod Readings
pub mod Readers
pub mod Noticing
pub mod LineOutcomes
