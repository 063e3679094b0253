pub mod Least
pub mod Named
pub mod Places
pub mod Answers
