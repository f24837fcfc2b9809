-- What the functions say to one another: no statement of what is read names these.
pub mod ClaimTaken
pub mod Lists
pub mod PairParts
pub mod Parts
pub mod PartWords
pub mod PatternTaken
pub mod Taken
