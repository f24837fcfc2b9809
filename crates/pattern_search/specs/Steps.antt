-- What single functions say to one another, in terms of their own data: no promise to a reader rests on it.
pub mod Conflicts
pub mod Found
pub mod Routes
pub mod Relations
pub mod Reasons
pub mod Drafts
