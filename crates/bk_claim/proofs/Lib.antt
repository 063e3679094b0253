pub mod LineParts
pub mod Findings
pub mod Judged
