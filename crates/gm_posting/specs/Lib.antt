pub mod Gathering
pub mod Laws
pub mod Numbers
pub mod Posts
pub mod Rows
pub mod Traffic
