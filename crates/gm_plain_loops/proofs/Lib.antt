mod Names
pub mod Followed
mod Bodies
mod Inners
mod Loads
mod Apart
mod Spots
mod Orders
mod Sends
mod Picks
mod InnerSends
mod Receivers
pub mod Plain
pub mod Running
mod Rows
