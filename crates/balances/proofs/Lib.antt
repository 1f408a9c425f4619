pub mod Limits
pub mod Charged
mod Sweeps
