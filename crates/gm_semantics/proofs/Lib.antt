pub mod LeastLaws
pub mod Leasts
pub mod ContributionLaws
pub mod SingleLaws
pub mod TargetLaws
pub mod OrderLaws
pub mod ExpressionFrames
pub mod BodyFrames
pub mod StatementFrames
mod Rows
