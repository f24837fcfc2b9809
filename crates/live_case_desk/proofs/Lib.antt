pub mod Sizes
pub mod TrueAnswers
pub mod TrueCases
