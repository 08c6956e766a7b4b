pub mod Turning
pub mod ListOrder
pub mod Ascending
pub mod Spending
pub mod Placing
pub mod Answering
mod Groups
pub mod Mapped
