pub mod Verdicts
pub mod Returned
