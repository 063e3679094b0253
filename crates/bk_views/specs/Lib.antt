pub mod Anchors
pub mod Statement
pub mod Told
pub mod Laws
pub mod private
