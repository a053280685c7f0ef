pub mod Writing
pub mod Worked
