pub mod Copying
pub mod Keeping
pub mod Placing
