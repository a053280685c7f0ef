pub mod Around
pub mod Stops
pub mod Verdict
