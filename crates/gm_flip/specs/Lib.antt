pub mod Pulling
pub mod Flipped
