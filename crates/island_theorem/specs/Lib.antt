-- Demand 3 over the calls of `topology_kept_boundaries` themselves.
pub mod Theorem
