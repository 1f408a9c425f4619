pub mod Views
pub mod Answer
