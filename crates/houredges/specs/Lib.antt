pub mod Plans
pub mod Edges
