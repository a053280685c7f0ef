pub mod Hoisting
pub mod Totals
pub mod Throughout
pub mod Stages
pub mod Laws
