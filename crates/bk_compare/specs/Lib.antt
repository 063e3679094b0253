pub mod FeedAgreement
pub mod private
