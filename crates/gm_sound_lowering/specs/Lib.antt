pub mod Asked
pub mod Entries
pub mod Ready
pub mod Laws
pub mod Types
