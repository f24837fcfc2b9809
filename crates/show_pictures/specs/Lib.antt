pub mod Markup
pub mod Steps
