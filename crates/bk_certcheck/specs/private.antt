pub mod Stages
pub mod Finding
