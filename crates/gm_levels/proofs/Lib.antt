pub mod Walking
pub mod Trails
pub mod Grouping
pub mod Marking
pub mod Searching
pub mod Listing
