pub mod BagLaws
pub mod ProductLaws
pub mod MonoidLaws
pub mod NumberLaws
pub mod TotalLaws
pub mod TakingLaws
pub mod RekeyingLaws
pub mod TupleLaws
mod Rows
