mod CutEntries
mod FirstForms
pub mod LongForms
mod LongTables
mod OperationsRead
mod OperationsTaken
mod PartsRead
mod ScalarTokens
mod ScalarsRead
mod SessionsRead
mod SpelledScalars
mod TableRead
