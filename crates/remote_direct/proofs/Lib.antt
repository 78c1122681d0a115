mod Kept
mod Anew
mod Meaning
mod Aside
mod Directed
mod Through
