pub mod CalendarTables
pub mod Days
pub mod Chunks
