pub mod Answering
pub mod Representing
pub mod Finishing
