mod Differences
mod Meeting
mod Sides
mod AlongColumns
mod AlongRowsDown
mod AlongRowsUp
pub mod Past
pub mod NearLine
pub mod Moving
pub mod Extents
