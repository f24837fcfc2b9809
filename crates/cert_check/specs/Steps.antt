-- What single functions say to one another, in terms of their own data: no promise to a reader rests on it.
pub mod Namings
pub mod Firsts
pub mod Needs
pub mod Replays
pub mod Walks
