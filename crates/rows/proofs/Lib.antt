pub mod Keys
pub mod Sorting
pub mod Writing
