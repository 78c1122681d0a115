pub mod Running
pub mod Pausing
pub mod code
