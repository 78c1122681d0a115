pub mod Verdicts
pub mod Dumps
pub mod Reports
pub mod Growing
pub mod code
