pub mod Programs
pub mod Safe
pub mod Played
