pub mod Totals
pub mod Folds
pub mod Cells
pub mod Rows
pub mod Batches
pub mod Held
pub mod WorkedTotals
