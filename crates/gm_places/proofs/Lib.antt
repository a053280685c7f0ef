pub mod Merges
pub mod Added
