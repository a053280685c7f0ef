pub mod Depths
pub mod Trees
pub mod Nesting
pub mod Laws
