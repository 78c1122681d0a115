pub mod Exchanging
pub mod Table
pub mod Linking
pub mod Kept
pub mod Ends
pub mod Talks
pub mod code
