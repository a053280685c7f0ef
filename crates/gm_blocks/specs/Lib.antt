pub mod Firsts
pub mod Takings
pub mod LoopBlocks
