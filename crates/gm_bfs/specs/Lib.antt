pub mod Variables
pub mod Copies
pub mod Marked
pub mod Searches
pub mod Levelled
