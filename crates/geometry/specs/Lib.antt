pub mod Forms
pub mod Representatives
pub mod Placed
pub mod Kinds
pub mod Widths
