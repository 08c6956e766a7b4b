pub mod Neighbours
pub mod Taking
pub mod TermScan
