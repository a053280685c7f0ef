pub mod Widened
pub mod Passes
pub mod Placed
pub mod Source
pub mod Spelled
pub mod Kept
pub mod Texts
mod Rows
