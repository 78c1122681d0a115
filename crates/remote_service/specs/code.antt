pub mod Finds
pub mod Told
pub mod Refusing
