pub mod Words
pub mod Play
pub mod Worlds
pub mod Explained
pub mod Laws
pub mod Script
pub mod code
