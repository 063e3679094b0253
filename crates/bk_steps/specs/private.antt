pub mod Machine
pub mod Schedule
