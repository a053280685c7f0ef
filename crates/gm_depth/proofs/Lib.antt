pub mod Derivations
pub mod Words
pub mod Expressions
pub mod Statements
pub mod Marks
pub mod Parts
pub mod Typing
pub mod Checking
pub mod Nesting
pub mod NestingKept
pub mod Shallow
pub mod Limits
mod Samples
