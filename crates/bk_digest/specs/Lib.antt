pub mod Digest
pub mod Mac
pub mod Prepared
pub mod Tree
pub mod Laws
pub mod private
