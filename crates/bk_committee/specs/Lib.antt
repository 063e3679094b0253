pub mod Payload
pub mod Sizes
pub mod Laws
