pub mod Cut
mod Pieced
mod Written
