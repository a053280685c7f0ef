pub mod Columns
pub mod Cells
pub mod TypedRows
