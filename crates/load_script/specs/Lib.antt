pub mod LoadText
pub mod Counting
pub mod LoadLine
