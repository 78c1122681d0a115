pub mod Stored
pub mod Standing
pub mod Answering
pub mod Deciding
pub mod Making
