-- What the rules of accession records come to, and what a line has.
pub mod Current
pub mod Lines
pub mod Reported
pub mod Chain
pub mod MapLine
