pub mod Bundled
pub mod Planned
pub mod Merged
