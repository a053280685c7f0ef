pub mod Combiners
pub mod Candidates
pub mod Laws
