-- How far rounded operations are off, from one operation to the separation.
pub mod SegmentErrors
pub mod Turned
