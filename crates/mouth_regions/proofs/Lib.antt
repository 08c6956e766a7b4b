-- What the proofs of several functions use, and in InnerWalk what a caller needs.
pub mod InnerWalk
mod Nearness
