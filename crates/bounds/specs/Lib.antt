pub mod Observer
pub mod Counts
pub mod Demand
pub mod Levels
pub mod Fakes
pub mod AsCalls
