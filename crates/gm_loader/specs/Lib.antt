pub mod Fields
pub mod Lines
pub mod Quick
pub mod GraphText
pub mod Sets
pub mod Tables
pub mod Loads
pub mod Rows
