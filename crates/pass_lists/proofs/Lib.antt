pub mod Viewing
mod Tallies
pub mod AfterChecks
pub mod AfterPartition
pub mod Closing
