pub mod Repeated
pub mod AtOnce
