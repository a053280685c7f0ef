pub mod Ors
pub mod Among
pub mod Supports
pub mod Firsts
pub mod Answers
pub mod CoreTrees
pub mod Items
pub mod Growing
pub mod Gathering
pub mod Bodies
pub mod Found
pub mod Webs
pub mod Spreading
mod Rows
