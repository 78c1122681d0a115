pub mod Approaching
pub mod Reading
pub mod Turning
