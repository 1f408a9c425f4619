pub mod Queue
pub mod Entries
pub mod Lists
