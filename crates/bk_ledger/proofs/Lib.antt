mod HandingLemmas
pub mod Runs
pub mod SliceLemmas
pub mod NextLemmas
pub mod BatchReading
pub mod Touching
pub mod PartRuns
pub mod FeedSlices
pub mod Growth
pub mod Enough
pub mod Covering
pub mod MadeSlots
pub mod Sliced
pub mod Alone
pub mod ReadInOrder
