pub mod Sound
pub mod Built
pub mod Reading
pub mod FieldLemmas
