mod Corners
mod Regions
mod Rows
pub mod Literals
