pub mod Keeping
pub mod Anew
pub mod Malformed
pub mod Serving
pub mod code
