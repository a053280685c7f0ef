pub mod Checks
pub mod Tests
pub mod Items
pub mod Firsts
pub mod Scopes
pub mod Sites
pub mod Tails
pub mod ShapeSorts
