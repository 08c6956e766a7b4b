pub mod Forms
pub mod Calls
