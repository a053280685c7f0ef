pub mod InboxLaws
pub mod StepJoins
pub mod BatchLaws
pub mod ColumnFields
pub mod HandledLaws
pub mod TakenLaws
