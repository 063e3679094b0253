pub mod Tailing
pub mod Laws
pub mod private
