pub mod Ordering
pub mod Level
pub mod Growth
pub mod Laws
pub mod private
