pub mod Prefixes
pub mod Quotients
pub mod Scans
pub mod Shifts
pub mod Words
