pub mod Begun
pub mod Early
pub mod Kept
pub mod Turns
pub mod Together
