pub mod Views
pub mod Walks
pub mod Parts
pub mod Uses
pub mod Meetings
pub mod Judging
pub mod Listing
