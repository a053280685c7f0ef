pub mod Basics
pub mod Trees
pub mod Partly
pub mod Turns
pub mod Reductions
pub mod Sane
pub mod Parts
pub mod Phases
mod Rows
