pub mod Texts
pub mod Tables
pub mod Arguments
pub mod Typed
pub mod Telling
pub mod ToldPlain
pub mod ToldLoops
pub mod ToldCuts
pub mod ToldPieces
pub mod ToldTexts
pub mod ToldLast
pub mod ToldTogether
pub mod WellTyped
pub mod Items
pub mod Lowerable
mod Samples
