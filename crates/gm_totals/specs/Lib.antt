pub mod Given
pub mod Places
pub mod Pots
pub mod Standing
