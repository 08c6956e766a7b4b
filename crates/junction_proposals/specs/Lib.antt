pub mod Ports
pub mod Lent
pub mod Unions
pub mod Bridges
pub mod Rows
