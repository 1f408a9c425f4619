pub mod Waiting
pub mod Marks
