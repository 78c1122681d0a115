pub mod Spelled
pub mod Calling
