pub mod Numbers
pub mod Genesis
pub mod Committee
pub mod Feed
pub mod Refusals
pub mod Laws
