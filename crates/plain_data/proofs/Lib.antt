pub mod Entries
pub mod TextMaps
pub mod Merging
pub mod Overlays
pub mod Histories
