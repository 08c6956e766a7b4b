pub mod Shapes
pub mod Strips
pub mod Candidates
