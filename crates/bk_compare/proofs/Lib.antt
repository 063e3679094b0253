pub mod FeedEnds
