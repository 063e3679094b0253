pub mod RunLaws
pub mod Claims
pub mod Laws
pub mod Following
pub mod Hashed
pub mod Binding
pub mod Chained
pub mod Counting
