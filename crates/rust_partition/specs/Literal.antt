-- The Rust's partition as it is written (areas.rs, and of lib.rs what it calls). To be read beside the Rust. Definitions only.
pub mod Neighbors
pub mod CutMasks
pub mod Components
pub mod Assessment
pub mod PartitionBySpans
