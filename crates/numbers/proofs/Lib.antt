pub mod Tests
pub mod Parts
pub mod All
pub mod Sums
pub mod Steps
pub mod Every
