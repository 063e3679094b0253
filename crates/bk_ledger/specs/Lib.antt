pub mod Ledger
pub mod Sliced
pub mod Executing
pub mod private
pub mod Naming
pub mod Touched
