pub mod Registered
pub mod Maps
pub mod Placed
pub mod Numbers
pub mod Places
pub mod Standing
pub mod Laws
pub mod code
