pub mod Commits
pub mod Chains
pub mod Keepers
pub mod code
