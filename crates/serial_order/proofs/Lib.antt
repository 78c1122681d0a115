mod Serial
mod Growing
mod Holding
