pub mod Changes
pub mod Pending
pub mod Feeds
pub mod Tails
pub mod Segments
pub mod Lists
