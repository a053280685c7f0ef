pub mod Holding
pub mod Copies
pub mod Picking
