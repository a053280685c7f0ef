pub mod Counted
pub mod Numbered
pub mod Walks
pub mod InPlace
pub mod Declaring
pub mod Placing
