-- Definitions that mirror code. Nobody has to judge by them.
pub mod Begun
pub mod Closures
pub mod Ended
pub mod Found
pub mod Leveled
pub mod Lists
pub mod Nests
