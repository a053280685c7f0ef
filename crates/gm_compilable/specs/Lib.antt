pub mod Parted
pub mod Laws
pub mod Parameters
pub mod Kept
