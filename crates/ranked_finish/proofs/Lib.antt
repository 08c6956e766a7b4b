pub mod Numbers
pub mod Proposing
pub mod Exits
pub mod Flat
