pub mod Images
pub mod Items
pub mod Laws
