pub mod Contract
pub mod Openings
