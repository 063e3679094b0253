pub mod Tags
pub mod Levels
