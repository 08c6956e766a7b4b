pub mod Calls
pub mod SameRules
pub mod WrittenReads
