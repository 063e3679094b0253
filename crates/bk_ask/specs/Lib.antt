pub mod Asking
pub mod private
