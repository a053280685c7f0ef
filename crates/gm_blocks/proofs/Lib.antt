pub mod Items
pub mod Loops
pub mod Taken
pub mod ZeroLines
