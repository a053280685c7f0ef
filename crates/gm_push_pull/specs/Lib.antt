pub mod Places
pub mod Reads
pub mod Tests
pub mod Locals
pub mod Sweeps
pub mod Finding
pub mod Webs
