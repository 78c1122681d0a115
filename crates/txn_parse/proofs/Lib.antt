pub mod Heads
pub mod Calls
pub mod Begun
pub mod Levels
pub mod Wholes
