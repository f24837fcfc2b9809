-- What the functions say to one another: no statement of what is read names these.
pub mod Behind
pub mod Reading
