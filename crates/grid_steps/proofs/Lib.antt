pub mod Square
pub mod Ways
pub mod Onward
pub mod OpenSteps
pub mod StepTests
pub mod Bits
pub mod MarkStep
pub mod OnwardMasks
