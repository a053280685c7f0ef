pub mod Drawing
pub mod Reading
