pub mod Parts
pub mod BatchStates
pub mod LineRuns
pub mod Turns
pub mod BatchSteps
