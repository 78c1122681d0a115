pub mod Asking
pub mod code
