pub mod Listed
pub mod Gets
mod Moved
