-- How far rounded operations are off, from one operation to the separation.
pub mod RoundingErrors
pub mod Offsets
pub mod Parameters
pub mod Roots
pub mod PointErrors
