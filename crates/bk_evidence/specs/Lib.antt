pub mod Collisions
pub mod Batches
pub mod Twins
pub mod Held
pub mod Laws
pub mod private
