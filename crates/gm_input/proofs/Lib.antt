pub mod Searching
pub mod Reading
pub mod Parting
pub mod NameReading
pub mod Naming
pub mod Answering
pub mod Roading
