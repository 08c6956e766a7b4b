pub mod OneBoundary
pub mod RankedCalls
pub mod RankedLaws
