pub mod Shortest
pub mod ShortestExamples
pub mod Result
pub mod ResultAnswers
pub mod ResultExamples
pub mod ShortestSteps
pub mod ShortestReads
