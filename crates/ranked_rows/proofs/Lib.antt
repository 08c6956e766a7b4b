pub mod Judging
pub mod Numbers
pub mod Following
pub mod Bounded
pub mod Listed
