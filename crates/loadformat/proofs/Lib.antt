pub mod Example
pub mod Going
pub mod Inputs
pub mod Lines
pub mod Ticks
pub mod Seams
pub mod Whole
