-- What the functions say to one another: no statement of what is decided names these.
pub mod Consistency
pub mod ThinAir
pub mod ExplainingLists
