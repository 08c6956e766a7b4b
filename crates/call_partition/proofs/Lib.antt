pub mod SizesPassed
mod EarlyLeaves
pub mod EarlyFits
pub mod Exits
pub mod OnGrid
mod Preparing
