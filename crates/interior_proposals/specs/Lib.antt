pub mod Forest
pub mod Given
pub mod Owners
pub mod Candidates
pub mod Fits
pub mod Leaves
pub mod Proposals
