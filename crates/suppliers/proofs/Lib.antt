mod Way
mod Choice
pub mod Answer
