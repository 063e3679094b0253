pub mod Rules
pub mod Verdicts
pub mod Frames
pub mod Laws
pub mod private
