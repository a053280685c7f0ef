pub mod Keeps
pub mod Sites
