pub mod Reading
pub mod FileReading
