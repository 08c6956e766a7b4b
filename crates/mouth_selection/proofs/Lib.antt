-- What the proofs of several functions use, and what a caller needs: RoundLaws, SelectionLaws, BestSteps, NearLeast, ProposalLists.
mod BestLaws
pub mod BestSteps
mod Conflicts
pub mod Folds
mod GoneMouths
mod Greedy
mod LeastOfRows
mod Marks
pub mod NearLeast
pub mod ProposalLists
pub mod RoundLaws
pub mod SelectionLaws
mod TakenLaws
