-- The Rust's sets and maps as ascending lists, and selections that keep sets.
pub mod Sets
pub mod SetTests
pub mod Entries
pub mod SelectionBySets
