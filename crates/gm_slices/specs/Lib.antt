pub mod Needs
pub mod Nests
pub mod Sets
pub mod Keeping
pub mod SliceWalks
pub mod OneWay
