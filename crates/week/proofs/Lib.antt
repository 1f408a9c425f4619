pub mod Sums
pub mod Minutes
pub mod Blank
