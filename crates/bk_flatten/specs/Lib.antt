pub mod Order
pub mod Batches
pub mod Laws
pub mod private
