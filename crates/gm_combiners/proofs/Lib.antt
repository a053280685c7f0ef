pub mod Running
pub mod Judging
pub mod Texts
pub mod Finding
pub mod Made
pub mod Walking
mod Rows
