pub mod BySources
pub mod Steps
