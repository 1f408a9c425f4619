pub mod Alone
pub mod Timed
