pub mod Literal
pub mod MaskBits
pub mod Candidates
pub mod OpenWays
pub mod UsedCells
pub mod FloodState
