pub mod Answering
pub mod Edges
