pub mod PartCodes
pub mod Wholes
pub mod Written
pub mod RequestCodes
pub mod GivenCodes
pub mod Added
pub mod AnswerCodes
