pub mod Contract
pub mod Finished
