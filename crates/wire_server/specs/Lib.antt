pub mod Talking
pub mod Promises
pub mod Links
pub mod code
