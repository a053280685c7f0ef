pub mod Members
pub mod Counting
pub mod Filling
pub mod Taking
pub mod Reading
pub mod QuickLemmas
