pub mod Alone
pub mod Gathers
pub mod Histories
pub mod Tokens
