pub mod Spots
pub mod Sites
