pub mod Roles
pub mod Sides
pub mod Slots
pub mod Paying
