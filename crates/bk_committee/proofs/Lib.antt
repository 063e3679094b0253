pub mod Chunks
pub mod Grammar
pub mod Weights
