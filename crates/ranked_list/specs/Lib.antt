pub mod RankedList
pub mod RankedAnswers
pub mod RankedExamples
