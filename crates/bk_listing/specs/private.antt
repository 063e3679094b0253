pub mod FrameRow
pub mod Listed
