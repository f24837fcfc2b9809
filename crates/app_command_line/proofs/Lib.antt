pub mod Usages
pub mod Words
pub mod Names
pub mod SettingWords
pub mod Saying
pub mod Additions
pub mod Files
pub mod Misuses
