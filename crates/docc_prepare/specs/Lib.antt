pub mod Attempts
pub mod Serial
pub mod Worlds
pub mod Witnesses
pub mod Calls
pub mod Backends
pub mod Readable
pub mod Stores
