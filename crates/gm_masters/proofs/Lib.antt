pub mod Around
pub mod Behind
pub mod Choices
pub mod Counts
pub mod Kept
pub mod Returns
pub mod Single
