pub mod AtOnce
pub mod Repeated
