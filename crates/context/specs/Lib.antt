pub mod Anchors
pub mod Cells
pub mod OneElevation
pub mod Packed
pub mod Records
pub mod Rows
pub mod Runs
pub mod Shown
