pub mod Stretch
pub mod Words
pub mod Names
pub mod South
pub mod Corners
pub mod Cells
pub mod Numbered
pub mod Contract
