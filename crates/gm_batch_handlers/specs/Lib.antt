pub mod Handling
pub mod Gifts
pub mod RowStates
pub mod RowRuns
pub mod Gathering
