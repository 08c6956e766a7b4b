pub mod Desks
pub mod DeskExamples
pub mod Terrain
