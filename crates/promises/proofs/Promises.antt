-- What is promised, a subject in a file: the three demands, what calls on a map leave, the bytes of sheets, single figures, the catalogue. Each statement is proved
-- by citing the theorems below it, alone or put together. What to read first: whoever believes the definitions that these statements name need believe nothing
-- else that stands in crates/. Assumes nothing.
pub mod Demands
pub mod Calls
pub mod Sheets
pub mod Figures
pub mod Catalogue
