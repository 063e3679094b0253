pub mod Openings
pub mod Parts
