pub mod Talking
pub mod Promises
pub mod Ways
pub mod Accounts
pub mod code
