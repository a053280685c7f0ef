pub mod Loops
pub mod Deferred
pub mod AllDeferred
pub mod Conditions
pub mod Locals
