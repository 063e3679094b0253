pub mod Orders
pub mod Extended
pub mod Growth
pub mod Parts
pub mod Whole
pub mod Taken
pub mod Listing
