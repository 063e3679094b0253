pub mod Committed
mod PartsPlayed
mod Telling
mod Reading
mod Adding
pub mod OneRows
pub mod Marking
pub mod Listing
