pub mod Recorded
pub mod Following
pub mod Chained
pub mod Legal
pub mod Held
pub mod Grown
pub mod Doubted
