pub mod Look
pub mod Outcomes
