pub mod TextFits
pub mod Digits
pub mod NumberFits
pub mod FormFits
pub mod PartFits
pub mod PrintedBack
pub mod Wholes
