mod Held
mod Over
mod Split
