pub mod BoardsLaws
pub mod Due
pub mod InPlace
pub mod Verdicts
