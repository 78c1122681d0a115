pub mod Running
pub mod Faults
pub mod Growing
