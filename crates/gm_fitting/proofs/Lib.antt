pub mod Bound
pub mod Inputs
pub mod Runs
pub mod Columns
pub mod EdgeLists
pub mod Matrices
