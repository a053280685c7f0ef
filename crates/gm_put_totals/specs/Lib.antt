pub mod Settling
pub mod PutTotals
pub mod Laws
