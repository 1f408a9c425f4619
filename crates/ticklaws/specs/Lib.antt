pub mod Laws
pub mod StepFour
pub mod Ports
