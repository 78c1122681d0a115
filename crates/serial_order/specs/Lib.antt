pub mod Serial
pub mod Growing
pub mod Holding
