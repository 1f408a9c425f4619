pub mod Viewed
pub mod Listing
pub mod Sample
