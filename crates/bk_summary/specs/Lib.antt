pub mod Summary
pub mod Text
pub mod Summarizing
pub mod Laws
pub mod private
