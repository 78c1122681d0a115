pub mod Shown
pub mod Numbers
pub mod Places
pub mod Rolls
