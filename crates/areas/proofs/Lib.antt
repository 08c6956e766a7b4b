pub mod Clearing
pub mod Leaving
pub mod Early
pub mod FirstRefusal
mod Exits
pub mod Labelling
pub mod Dividing
