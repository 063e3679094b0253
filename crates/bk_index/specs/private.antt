pub mod Firsts
pub mod Rows
