pub mod Parts
pub mod Values
pub mod Masks
pub mod Turns
pub mod Sane
pub mod Lone
pub mod Gathers
pub mod Gathering
pub mod Phases
pub mod Trees
mod Samples
