pub mod Named
pub mod Tables
pub mod Tests
pub mod Fits
pub mod Counted
pub mod Where
