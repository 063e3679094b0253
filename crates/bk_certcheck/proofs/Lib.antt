pub mod Signers
pub mod Rules
pub mod Stages
pub mod Zips
pub mod FoundOf
pub mod PartsOf
