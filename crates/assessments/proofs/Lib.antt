mod Halved
mod Insertion
mod Holding
mod Gathering
mod Directions
mod Joining
mod Spans
