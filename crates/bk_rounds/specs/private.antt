pub mod Numbered
pub mod Names
pub mod Tied
pub mod Prepared
pub mod Tally
