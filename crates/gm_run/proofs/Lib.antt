pub mod SameColumns
pub mod Asked
pub mod CompiledLemmas
