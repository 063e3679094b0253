pub mod Outcomes
pub mod Reads
pub mod private
pub mod Laws
