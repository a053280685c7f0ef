pub mod OperandLaws
pub mod ColumnLaws
pub mod LeafLaws
pub mod GuardLaws
mod Worked
pub mod DegreeLaws
