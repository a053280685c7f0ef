pub mod Values
pub mod Tells
pub mod Stores
pub mod Points
pub mod Laws
