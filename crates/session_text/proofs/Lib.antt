pub mod LineFits
pub mod ReplyFits
pub mod Verbs
pub mod PrintedBack
pub mod Within
pub mod Tries
