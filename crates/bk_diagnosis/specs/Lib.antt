pub mod Lines
pub mod Waiting
pub mod Missing
pub mod Evidence
pub mod Answers
pub mod Laws
pub mod private
pub mod EvidenceLaws
