pub mod Streams
pub mod Memory
pub mod Files
pub mod Stops
