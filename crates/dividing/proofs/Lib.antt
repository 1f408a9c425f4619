pub mod Divided
