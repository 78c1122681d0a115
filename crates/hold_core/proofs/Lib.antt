pub mod Beside
pub mod Covered
pub mod Ends
mod Found
mod Keeping
pub mod LeastBars
pub mod Listed
mod Marked
mod Places
mod Rising
mod Singly
