pub mod Gathered
pub mod Lasts
pub mod LoopKinds
pub mod Trees
