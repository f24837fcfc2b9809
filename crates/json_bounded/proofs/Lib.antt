pub mod CutLaws
pub mod CutLists
pub mod CutPlaces
mod Keeping
mod LeafViews
pub mod Stopping
pub mod Tokens
pub mod Turns
pub mod Walking
