pub mod Bounds
pub mod Joined
pub mod Nodes
