pub mod Handing
pub mod Slices
pub mod Widened
