pub mod Buffering
pub mod Answers
pub mod Lending
pub mod Forms
pub mod Loops
pub mod Found
pub mod Pauses
