pub mod Over
mod KeySets
