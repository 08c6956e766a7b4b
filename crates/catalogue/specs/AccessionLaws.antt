-- What the rules of accession records come to, and what a line has.
pub mod Last
pub mod Chain
pub mod Newest
pub mod MapLine
