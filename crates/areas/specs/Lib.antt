pub mod Contract
pub mod Fit
pub mod Labelled
pub mod Lists
pub mod Divided
