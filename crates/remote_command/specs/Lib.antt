pub mod Running
pub mod Linked
