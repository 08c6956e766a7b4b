pub mod Roots
pub mod Rounding
pub mod Short
pub mod Contract
pub mod Examples
pub mod RootNearest
