pub mod Accesses
pub mod Flat
pub mod Rows
pub mod Trail
pub mod Words
