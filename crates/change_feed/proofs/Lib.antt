pub mod Feeds
pub mod Pending
