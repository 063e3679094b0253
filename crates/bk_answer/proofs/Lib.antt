pub mod Closings
pub mod Counting
pub mod Reports
pub mod Verdicts
pub mod Texts
