pub mod Checking
pub mod Imaging
pub mod Executing
pub mod DemoLemmas
pub mod Answering
