pub mod Refused
pub mod Divided
