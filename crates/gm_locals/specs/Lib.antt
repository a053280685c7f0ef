pub mod AllLocals
pub mod Beside
pub mod Groups
pub mod AllGroups
pub mod AllMoved
pub mod Across
