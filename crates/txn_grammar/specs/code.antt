-- Definitions that mirror code. Nobody has to judge by them: laws tie them to the rules.
pub mod Forms
pub mod Reader
pub mod Unquoted
