pub mod States
pub mod Accounts
