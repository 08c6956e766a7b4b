-- The three passes as the Rust writes them, from the map to the rows.
pub mod RampRows
pub mod JunctionRows
pub mod Accepted
