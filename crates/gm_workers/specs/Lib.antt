pub mod Dealings
pub mod Partings
pub mod Parts
pub mod Threads
pub mod Crews
pub mod Runs
