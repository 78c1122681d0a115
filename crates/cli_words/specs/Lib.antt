pub mod Forms
pub mod Refusals
pub mod Limits
pub mod Questions
pub mod code
