pub mod Devices
pub mod FrameFaults
pub mod OneReading
pub mod FrontAndWhole
pub mod CutJoining
pub mod CutParts
pub mod PulledBytes
pub mod Pulls
mod EarlyGenesis
