pub mod Appending
pub mod Below
pub mod Decimal
pub mod Example
