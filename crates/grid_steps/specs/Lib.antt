pub mod Masks
pub mod Walk
pub mod Contract
pub mod Inner
pub mod Grids
