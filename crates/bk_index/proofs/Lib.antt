pub mod Entered
pub mod Found
