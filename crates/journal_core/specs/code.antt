pub mod Rising
pub mod Parts
pub mod Segments
pub mod ByShard
pub mod Logs
