pub mod Groups
pub mod Items
pub mod Passed
pub mod Judging
pub mod Filling
pub mod Chains
pub mod PartsFound
pub mod Endpoints
pub mod Answering
pub mod ShortNumbers
mod PutParts
