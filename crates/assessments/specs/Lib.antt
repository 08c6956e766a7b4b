pub mod Held
pub mod Assess
pub mod Contract
pub mod Assessing
