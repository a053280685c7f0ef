pub mod GiftLaws
pub mod TotalLaws
pub mod Splits
pub mod LineLaws
pub mod SlotLaws
pub mod HandlingLaws
pub mod AddLaws
pub mod BatchLaws
pub mod PartLaws
pub mod StoreLaws
pub mod StepLaws
mod Worked
