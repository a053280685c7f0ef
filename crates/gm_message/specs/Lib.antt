pub mod Views
pub mod Gathered
pub mod Lasts
pub mod Kinds
