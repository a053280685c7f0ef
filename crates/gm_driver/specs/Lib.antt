pub mod Fronts
pub mod Texts
pub mod Runs
pub mod Checks
pub mod Images
pub mod Executed
pub mod Demos
pub mod Whole
