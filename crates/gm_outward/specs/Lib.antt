pub mod Gathered
pub mod Outward
