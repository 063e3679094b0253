pub mod Devices
pub mod Tallies
