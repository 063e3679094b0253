pub mod FirstFrames
pub mod Unordered
pub mod OrderedDigests
pub mod Summed
