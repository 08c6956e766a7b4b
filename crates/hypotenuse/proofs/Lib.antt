pub mod Rounds
pub mod Close
pub mod Apart
pub mod Outcomes
pub mod NearestRoot
pub mod Aligned
