-- The sheet's readers.
pub mod SheetLaws
pub mod Endpoints
pub mod SheetSizes
