pub mod Fields
pub mod MatrixMarket
pub mod Loads
pub mod FaultLines
pub mod Tables
pub mod Rows
