pub mod Answered
pub mod ClosingLemmas
pub mod GatheringLemmas
pub mod NumberLemmas
pub mod RowLemmas
pub mod TrafficLemmas
pub mod WorkerLemmas
pub mod WorkedRows
