pub mod Picks
pub mod Laws
