pub mod Within
pub mod Serving
pub mod Lending
pub mod Shows
pub mod Steps
