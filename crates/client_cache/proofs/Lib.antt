pub mod Following
pub mod Changing
