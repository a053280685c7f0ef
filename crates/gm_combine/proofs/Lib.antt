pub mod Adding
pub mod Picking
pub mod Summing
pub mod Multiplying
pub mod Messages
pub mod Folding
pub mod Preparing
