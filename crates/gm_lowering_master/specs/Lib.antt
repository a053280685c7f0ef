pub mod Runs
pub mod Cells
pub mod Follows
pub mod Whole
pub mod Going
pub mod Plain
