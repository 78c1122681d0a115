pub mod Failing
pub mod Examples
