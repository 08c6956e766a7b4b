pub mod Outputs
pub mod RowsAtExit
pub mod Theorem
pub mod RustRows
pub mod RustPartition
pub mod CaseCalls
pub mod Example
