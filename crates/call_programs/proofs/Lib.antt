pub mod Programs
pub mod Safe
pub mod Counted
pub mod Played
