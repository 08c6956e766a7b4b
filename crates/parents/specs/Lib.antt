pub mod Forest
pub mod ForestLaws
