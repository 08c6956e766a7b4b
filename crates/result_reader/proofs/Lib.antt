pub mod Flat
pub mod Steps
pub mod Walking
pub mod Numbers
pub mod Lists
pub mod Chains
pub mod Answering
