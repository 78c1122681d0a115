pub mod OneKind
pub mod Greater
pub mod Laws
pub mod Addresses
pub mod Keyed
pub mod Listed
