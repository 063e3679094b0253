pub mod Admission
pub mod Heads
pub mod Links
pub mod Members
pub mod Laws
pub mod Rounds
pub mod Votes
pub mod private
