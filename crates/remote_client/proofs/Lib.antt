pub mod Answered
mod Asking
mod Through
