-- Whole numbers: comparisons, squares, numbers of several words, signed numbers.
pub mod Comparisons
pub mod Squares
pub mod WholeNumbers
