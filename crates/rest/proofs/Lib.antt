pub mod IslandPasses
pub mod IslandRest
pub mod LentIsland
pub mod PrintedIsland
pub mod KeptAlike
pub mod RestCalls
pub mod Example
