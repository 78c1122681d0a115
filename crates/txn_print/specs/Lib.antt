pub mod Places
pub mod Pieces
pub mod Canonical
pub mod Columns
pub mod ReadBack
pub mod Examples
