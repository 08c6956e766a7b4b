pub mod Rises
pub mod EntriesOf
pub mod LabelsInTurn
pub mod PairsAscend
pub mod RowsAscend
pub mod RunResult
pub mod Held
pub mod Calls
