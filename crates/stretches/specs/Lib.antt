pub mod Queue
pub mod Stretches
