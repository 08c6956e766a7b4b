-- The words of the contracts of what a mouth and a ramp propose.
pub mod Candidates
pub mod Ends
pub mod Lent
pub mod Listed
pub mod Outers
pub mod Rows
