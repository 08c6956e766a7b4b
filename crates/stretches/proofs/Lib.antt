pub mod LowElevations
pub mod UpTo
pub mod Adding
