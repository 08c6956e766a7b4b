pub mod Walks
pub mod Parts
pub mod Contract
pub mod TwoCalls
pub mod Lists
