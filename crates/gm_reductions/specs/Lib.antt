pub mod Keys
pub mod Folds
pub mod Accesses
pub mod Stages
pub mod Phases
