pub mod Flaws
pub mod Walks
pub mod Programs
pub mod Runs
pub mod Answers
pub mod Replies
