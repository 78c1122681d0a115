pub mod Frames
pub mod Replies
