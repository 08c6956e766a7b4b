pub mod Parts
pub mod Answering
