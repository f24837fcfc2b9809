-- What single functions say to one another, in terms of their own data: no promise to a reader rests on it.
pub mod Arguments
pub mod Filing
pub mod Lines
pub mod ScriptParts
pub mod ScriptsRead
pub mod StepParts
pub mod StepsTaken
