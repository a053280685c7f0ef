mod Reporting
mod Rows
pub mod Telling
