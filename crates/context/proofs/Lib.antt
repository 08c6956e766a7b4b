-- The laws that the proofs of this crate share.
pub mod AnchorSteps
pub mod Asked
pub mod Counting
pub mod FullPairs
pub mod IncidentCounts
pub mod IncidentWhole
pub mod Ones
pub mod PairStarts
pub mod Radius
pub mod RecordLaws
pub mod RecordCounts
pub mod AnchorLaws
pub mod RunCounting
pub mod RunLaws
pub mod ShownLaws
pub mod RowChains
mod Chunks
