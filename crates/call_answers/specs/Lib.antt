pub mod Desks
pub mod Game
pub mod Rest
