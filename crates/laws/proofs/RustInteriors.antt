-- Pass 2 as the Rust writes it (ramp_boundaries.rs), and that it is the definitions' pass.
pub mod InteriorChain
pub mod InteriorsAsRust
pub mod Leaves
