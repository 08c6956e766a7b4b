-- The words of the contracts of the choice among proposals.
pub mod Entries
pub mod Held
pub mod Keys
pub mod Rounds
pub mod Selecting
