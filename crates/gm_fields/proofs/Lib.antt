pub mod Parting
pub mod Digits
