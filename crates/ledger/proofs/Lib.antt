pub mod Taking
pub mod Sound
pub mod AddSteps
