pub mod Line
pub mod Linking
pub mod Chain
pub mod Checking
pub mod Chains
pub mod Laws
pub mod private
