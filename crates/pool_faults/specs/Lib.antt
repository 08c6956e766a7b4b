pub mod Apart
pub mod Ends
