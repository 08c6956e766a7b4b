pub mod Blocks
pub mod Start
