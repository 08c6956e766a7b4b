-- What the proofs of several functions use, here and, where public, in the crates above.
pub mod ApproachLaws
mod CandidateLaws
pub mod CandidateRoom
pub mod Distinct
pub mod Fitting
mod FoundMouths
mod KnownEnds
mod Literals
pub mod Measured
pub mod OuterWithin
pub mod RowLists
mod SafeLists
pub mod ShapeTests
pub mod ShapedMouths
mod StarShapes
mod TriangleFound
mod TriangleMouths
mod Within
