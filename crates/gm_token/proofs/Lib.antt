pub mod Listings
pub mod Values
pub mod Tables
pub mod Symbols
pub mod Longest
pub mod Comments
pub mod Classes
pub mod Gaps
pub mod Steps
pub mod Once
mod Examples
