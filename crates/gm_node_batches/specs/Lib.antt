pub mod Inboxes
pub mod Sents
pub mod Openings
pub mod Taken
