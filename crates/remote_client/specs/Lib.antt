pub mod Standing
pub mod Asking
pub mod Opening
pub mod Through
