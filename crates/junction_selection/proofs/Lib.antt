pub mod RankLaws
pub mod Insertion
pub mod Sorting
pub mod Conflicts
pub mod Standings
pub mod Removing
pub mod ReservedPorts
pub mod Passing
