pub mod PartLaws
pub mod Splits
pub mod RowLemmas
pub mod LineLaws
pub mod BatchLaws
pub mod StepLaws
pub mod TurnLaws
pub mod FoldLaws
pub mod TurnLists
mod Worked
