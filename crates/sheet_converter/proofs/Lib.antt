pub mod FirstNumber
pub mod Walking
pub mod Same
pub mod Comparing
pub mod Cutting
pub mod Answering
pub mod Lists
pub mod Copying
