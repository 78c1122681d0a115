pub mod Versions
pub mod Shards
pub mod Standing
pub mod Bases
pub mod Validating
pub mod Laws
pub mod code
