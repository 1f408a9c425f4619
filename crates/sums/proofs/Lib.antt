pub mod NodeByNode
pub mod Rated
pub mod Summable
