pub mod Timed
pub mod Written
