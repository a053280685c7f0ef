pub mod Alike
pub mod Laws
pub mod Rising
pub mod Spelled
