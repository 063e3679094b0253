pub mod Voted
pub mod Grown
pub mod Settled
pub mod Levels
pub mod Back
pub mod Last
pub mod Onward
