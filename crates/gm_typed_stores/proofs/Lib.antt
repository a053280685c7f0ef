pub mod Eaches
pub mod Values
pub mod Kept
pub mod Expressions
pub mod Settling
pub mod Bodies
pub mod Phases
pub mod Outcomes
pub mod Inputs
pub mod Points
mod Samples
