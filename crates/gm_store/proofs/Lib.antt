pub mod Writing
pub mod Reversing
