pub mod Commas
pub mod Asking
pub mod Placing
pub mod Naming
pub mod Rows
pub mod Sheets
pub mod Walking
pub mod KindLaws
