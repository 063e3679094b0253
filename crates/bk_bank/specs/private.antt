pub mod Inside
pub mod Laying
pub mod Closing
