pub mod Placing
pub mod Listing
pub mod Spreading
pub mod Showing
