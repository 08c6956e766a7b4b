pub mod Ranks
pub mod Taken
