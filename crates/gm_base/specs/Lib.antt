pub mod Places
pub mod Rules
pub mod Statuses
pub mod Merge
