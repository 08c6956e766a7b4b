pub mod Answering
pub mod KeptSpans
pub mod DividingKept
pub mod Ready
pub mod PreparingGame
