pub mod Counting
pub mod Fronts
pub mod Judging
pub mod Telling
pub mod TellingParts
pub mod Worked
