pub mod Unnamed
pub mod FaultKeys
pub mod Closing
pub mod Looping
pub mod FoldsLaws
pub mod FoldsOut
pub mod Units
pub mod OneNode
pub mod WriteThere
pub mod Iterators
pub mod TypedAlike
pub mod Known
pub mod AccessesLaws
pub mod AccessesKept
pub mod Telling
pub mod AccessesOut
pub mod PhasesLaws
mod Samples
