pub mod HexDigits
pub mod Splits
pub mod Roots
pub mod Paths
pub mod Climbs
pub mod TagBlocks
pub mod Levels
