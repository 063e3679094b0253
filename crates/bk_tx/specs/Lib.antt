pub mod Access
pub mod Batch
pub mod Batches
pub mod Reading
pub mod Spelling
pub mod Transaction
pub mod private
