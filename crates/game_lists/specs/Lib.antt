pub mod Early
pub mod Forms
pub mod Prepared
pub mod Kept
