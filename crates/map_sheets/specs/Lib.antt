pub mod SheetBytes
pub mod Writing
pub mod Converting
pub mod Examples
pub mod Before
pub mod Limited
