pub mod Prefixes
pub mod Tails
pub mod Relaying
