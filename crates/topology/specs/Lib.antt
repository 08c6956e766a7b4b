-- The words of the contracts of the functions that see the lent slice of region records.
pub mod Contract
pub mod Desks
pub mod Filled
pub mod Held
pub mod Interiors
pub mod Lent
pub mod Marks
pub mod Mouths
pub mod Numbers
pub mod Proposals
pub mod Ranked
pub mod Reports
pub mod Games
pub mod Rest
