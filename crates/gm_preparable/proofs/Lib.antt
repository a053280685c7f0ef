pub mod Standing
pub mod Tables
pub mod Facts
mod Groups
mod Compounds
mod Literals
mod Conditions
mod ReadsApart
mod Picks
mod Accesses
mod Folds
mod InnerFolds
mod Searches
mod Unchecked
mod UncheckedStatements
pub mod Texts
mod Tuples
pub mod Together
mod Samples
