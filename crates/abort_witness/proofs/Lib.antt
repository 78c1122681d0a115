pub mod LeastPair
pub mod NamedKinds
pub mod Pieces
pub mod Printable
