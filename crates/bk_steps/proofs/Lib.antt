pub mod Tables
pub mod Scenes
pub mod Found
pub mod Owing
pub mod Written
pub mod Claims
pub mod Turns
pub mod Finishes
pub mod Running
pub mod Judging
mod Hands
pub mod Reached
mod Placed
pub mod Settled
mod Seated
mod Counted
mod Noted
mod Ruled
mod Marked
mod Receipted
mod Carried
mod Opening
mod Scheduled
pub mod Outcomes
pub mod Leaving
pub mod InOrder
mod Answering
