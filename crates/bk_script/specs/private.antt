pub mod Saying
pub mod Agreeing
pub mod Listing
pub mod LineEnds
pub mod Held
pub mod Places
pub mod Keywords
pub mod Certificates
