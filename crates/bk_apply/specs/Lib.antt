pub mod Answers
pub mod Scheduling
pub mod private
pub mod Laws
