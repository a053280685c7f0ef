pub mod Views
pub mod Rows
pub mod Walks
pub mod Searches
pub mod Groups
