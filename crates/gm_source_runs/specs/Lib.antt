pub mod Walks
pub mod Programs
pub mod Answers
pub mod Rows
