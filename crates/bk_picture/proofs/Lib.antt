pub mod Ids
pub mod Named
pub mod LastRounds
pub mod Puts
pub mod Filling
pub mod Segments
pub mod Drawings
