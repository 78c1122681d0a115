pub mod Rows
pub mod Linked
pub mod Parts
mod Ended
mod ReadBack
pub mod Talked
