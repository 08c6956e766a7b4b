pub mod Held
mod Counting
mod Lengths
mod Adding
pub mod Called
