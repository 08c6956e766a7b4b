mod Starting
mod Stretches
pub mod PlaceLaws
pub mod JudgeLaws
