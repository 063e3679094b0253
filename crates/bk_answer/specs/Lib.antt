pub mod RunReport
pub mod Outcomes
pub mod Gaps
pub mod Closed
pub mod Answers
pub mod Values
pub mod Flaws
pub mod private
