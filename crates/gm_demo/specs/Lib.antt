pub mod Draws
pub mod Edges
pub mod Texts
pub mod Programs
pub mod Lines
