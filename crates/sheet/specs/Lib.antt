pub mod Numbers
pub mod Parts
pub mod Contract
pub mod Lists
