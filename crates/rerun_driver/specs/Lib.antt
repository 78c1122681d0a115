pub mod Watches
pub mod Touched
pub mod BegunRuns
pub mod code
