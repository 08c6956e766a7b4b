-- Pass 2 as the Rust writes it (ramp_boundaries.rs), and that it is the definitions' pass.
pub mod LeavesLiteral
pub mod ComponentLiteral
pub mod ComponentRegions
pub mod ComponentSearch
pub mod InteriorLiteral
pub mod DepthFirstLiteral
pub mod SearchRounds
pub mod SearchGraph
pub mod SearchInvariant
pub mod DepthFirst
pub mod InteriorLoop
pub mod InteriorStarts
pub mod Selection2
