pub mod Draws
pub mod Example
