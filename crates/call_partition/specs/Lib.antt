pub mod Asking
pub mod Early
pub mod Contract
pub mod Prepared
