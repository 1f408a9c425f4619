pub mod Limits
mod Sums
