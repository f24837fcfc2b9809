-- What single functions say to one another, in terms of their own data: no promise to a reader rests on it.
pub mod Watching
pub mod TurnCalls
pub mod NotesSoFar
pub mod ListsSoFar
pub mod Runs
