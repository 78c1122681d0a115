pub mod Decodes
pub mod Told
