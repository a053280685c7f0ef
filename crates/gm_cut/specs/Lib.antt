pub mod Runs
pub mod Parts
pub mod Taken
pub mod Own
pub mod Walks
pub mod Slices
pub mod Lean
