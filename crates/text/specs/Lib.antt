pub mod Appended
pub mod Text
