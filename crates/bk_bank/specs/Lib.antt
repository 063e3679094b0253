pub mod private
pub mod Setting
pub mod Rule
pub mod Plays
pub mod Steps
pub mod Bank
pub mod Words
pub mod Laws
