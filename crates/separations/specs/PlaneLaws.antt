-- Points, segments and their distances, over naturals: no sign, no root, no real number.
pub mod Signs
pub mod Sliding
pub mod Signed
pub mod Rates
pub mod Stewart
pub mod Feet
pub mod Meeting
pub mod Crossing
pub mod Sharing
pub mod LeastDistance
