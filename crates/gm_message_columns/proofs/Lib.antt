pub mod TableLemmas
pub mod ListLemmas
pub mod GrowthLemmas
pub mod JoiningLemmas
