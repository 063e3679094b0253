pub mod FeedReports
pub mod Schedules
