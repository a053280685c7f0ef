pub mod Samples
pub mod Sharing
pub mod ByShape
mod Reading
mod Rows
