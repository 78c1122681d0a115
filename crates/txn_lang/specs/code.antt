pub mod Places
pub mod Checking
