pub mod Appended
pub mod Talked
pub mod Framed
pub mod Turned
pub mod Asked
pub mod Promises
pub mod Settled
