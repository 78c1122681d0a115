pub mod Histories
pub mod Cached
pub mod Laws
pub mod code
