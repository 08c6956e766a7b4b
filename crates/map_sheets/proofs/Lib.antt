pub mod Calls
pub mod Converted
pub mod WrittenReads
