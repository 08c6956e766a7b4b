-- Points, segments and their distances, over naturals: no sign, no root, no real number.
pub mod Perpendicular
pub mod Sizes
