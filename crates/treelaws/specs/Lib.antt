pub mod Shares
pub mod Lost
pub mod Joins
pub mod Renewal
pub mod Stated
