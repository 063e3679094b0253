pub mod Claims
pub mod private
