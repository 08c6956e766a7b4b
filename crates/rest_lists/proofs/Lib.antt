pub mod Beginning
pub mod Between
pub mod Ending
pub mod Holding
pub mod Inner
pub mod Turned
