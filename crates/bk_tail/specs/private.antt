pub mod Steps
pub mod Putting
