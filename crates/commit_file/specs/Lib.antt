pub mod Through
pub mod Files
pub mod Kept
pub mod Recovering
pub mod Standing
pub mod Tapes
pub mod Keepers
