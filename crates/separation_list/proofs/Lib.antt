pub mod Storing
pub mod Answering
