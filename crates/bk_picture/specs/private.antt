pub mod Marks
pub mod Cells
pub mod Last
pub mod Shows
