pub mod Directing
pub mod Laws
pub mod code
