pub mod Finding
pub mod Judging
