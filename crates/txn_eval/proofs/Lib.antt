pub mod Bound
pub mod Buffered
pub mod Ending
pub mod FoundKept
pub mod Steady
pub mod Pauses
pub mod MoreKnown
pub mod TooMuch
