pub mod Digested
pub mod Joined
pub mod Tallies
pub mod Lesser
pub mod Ahead
pub mod Works
