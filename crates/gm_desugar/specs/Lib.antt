pub mod Groups
pub mod Compounds
pub mod Literals
pub mod Conditions
pub mod Reads
pub mod Stages
