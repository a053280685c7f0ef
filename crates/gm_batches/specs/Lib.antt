pub mod NodeBatches
pub mod ColumnTypes
pub mod ValuesIn
pub mod Guards
pub mod Degrees
