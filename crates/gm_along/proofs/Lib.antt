pub mod Scopes
pub mod OneLoop
pub mod Canonical
pub mod Bodies
pub mod Phases
pub mod Hoists
pub mod Levels
pub mod Together
mod Samples
