pub mod Absence
