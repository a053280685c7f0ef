pub mod SettlingLemmas
pub mod SoundLemmas
pub mod TotalLemmas
pub mod PutLemmas
mod Worked
