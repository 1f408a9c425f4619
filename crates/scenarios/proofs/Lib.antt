pub mod Judge
pub mod Near
pub mod Week
pub mod Short
pub mod Plan
pub mod Step
pub mod Run
