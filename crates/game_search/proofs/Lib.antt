pub mod Stepping
pub mod Rows
pub mod Sweeps
pub mod Searching
