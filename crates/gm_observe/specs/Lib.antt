pub mod Audience
pub mod Notes
