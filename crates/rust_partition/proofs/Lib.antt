pub mod AssessmentAsRust
pub mod ComponentsAsRust
pub mod Example
pub mod FloodRounds
pub mod MasksAsRust
pub mod NeighborsAsRust
pub mod PartitionAsRust
