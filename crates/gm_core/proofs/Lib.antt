pub mod MailLemmas
pub mod NodeLists
pub mod CoreLemmas
pub mod RunLemmas
pub mod SuperstepLemmas
pub mod RowReads
pub mod LegalLemmas
pub mod CoreChanges
