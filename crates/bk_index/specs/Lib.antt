pub mod Finding
pub mod Places
pub mod private
