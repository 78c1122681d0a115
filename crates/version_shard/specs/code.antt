pub mod Chains
pub mod Clashing
pub mod Following
pub mod Marks
