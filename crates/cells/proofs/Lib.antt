pub mod Alone
pub mod Covered
pub mod Filling
pub mod Turns
