pub mod Phases
pub mod Searches
pub mod Inputs
pub mod Ends
