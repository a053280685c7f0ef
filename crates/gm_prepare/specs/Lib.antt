pub mod Numbered
pub mod Reading
pub mod Declaring
pub mod Placing
pub mod Evenness
