pub mod Words
pub mod Jobs
pub mod Commands
pub mod Found
pub mod Arguments
pub mod Bindings
