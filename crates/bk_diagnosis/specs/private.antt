pub mod Lacking
pub mod Rejects
pub mod Graph
pub mod Shows
pub mod Colliding
pub mod Twins
