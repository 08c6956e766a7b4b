-- What the proofs of several functions use.
mod Lines
pub mod Signed
pub mod Canonical
