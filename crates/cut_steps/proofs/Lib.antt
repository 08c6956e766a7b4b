pub mod CutLaws
pub mod Trimmed
pub mod Onward
pub mod Changes
mod SideWords
mod Steps
pub mod Cells
mod Sides
pub mod Marks
pub mod Among
mod Passing
mod Walks
pub mod Beyond
pub mod Across
pub mod SpanParts
pub mod Chunks
pub mod Spans
pub mod Shown
