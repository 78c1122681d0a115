pub mod Asked
pub mod Served
pub mod Recovered
pub mod Auditing
pub mod Reached
