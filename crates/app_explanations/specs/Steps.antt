-- What single functions say to one another, in terms of their own data: no promise to a reader rests on it.
pub mod LongFound
pub mod ShortTexts
pub mod Examining
pub mod Gathering
