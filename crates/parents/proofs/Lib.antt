mod Finding
mod Joining
mod OwnParents
