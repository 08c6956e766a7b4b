-- What the records of all regions add up to (document 02, request 6), of every map and over every accepted call.
pub mod Totals
pub mod ByLabel
