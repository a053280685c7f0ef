pub mod Pointwise
pub mod Typed
pub mod Folding
