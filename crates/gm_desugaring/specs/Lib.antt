pub mod Desugaring
pub mod Laws
