pub mod Counts
pub mod Paired
pub mod Put
