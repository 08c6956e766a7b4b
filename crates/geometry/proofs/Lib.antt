-- What the proofs of several functions use.
mod Literals
mod Quotients
pub mod AtPoints
pub mod Ends
