pub mod Listing
pub mod Rejects
pub mod Forged
pub mod Answers
pub mod private
