pub mod Numbers
pub mod Names
pub mod Values
pub mod Sound
pub mod Complete
pub mod Refused
