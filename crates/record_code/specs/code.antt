pub mod Reads
pub mod Faults
pub mod Heads
