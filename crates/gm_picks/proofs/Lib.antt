pub mod ReadsRise
pub mod ReadsTell
pub mod PicksLaws
pub mod PicksKept
pub mod PicksOut
pub mod Gathering
pub mod InPlace
pub mod Steps
mod Samples
