pub mod Reading
pub mod Printing
mod Calling
