pub mod Sums
pub mod Rated
