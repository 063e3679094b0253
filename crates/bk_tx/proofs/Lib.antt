pub mod Ascending
pub mod Batches
pub mod Bodies
pub mod Pairs
pub mod Positions
pub mod Puts
pub mod Transactions
pub mod Written
