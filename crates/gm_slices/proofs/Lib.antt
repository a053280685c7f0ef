pub mod Sets
pub mod Needed
pub mod Wanted
pub mod SliceWalks
pub mod Done
pub mod OneWay
