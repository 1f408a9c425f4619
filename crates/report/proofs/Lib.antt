pub mod Lines
pub mod Texts
pub mod Renewed
pub mod Example
