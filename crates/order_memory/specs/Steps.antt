-- What single functions say to one another, in terms of their own data: no promise to a reader rests on it.
pub mod Written
pub mod Listed
pub mod GrowingOrders
pub mod GrowthSteps
pub mod Indexed
pub mod TakingIn
pub mod HappenedBefores
pub mod Conflicts
pub mod SourceWaits
