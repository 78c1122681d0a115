pub mod Edges
pub mod Chains
pub mod Links
pub mod Laws
