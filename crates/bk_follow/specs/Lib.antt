pub mod Follower
pub mod Finishing
pub mod Stopping
pub mod Queries
pub mod Ordering
pub mod Replaying
pub mod Agreement
pub mod private
