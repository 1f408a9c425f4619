pub mod Whole
pub mod Below
pub mod Tests
