pub mod KeptGraph
pub mod GameVerdict
pub mod GameExit
pub mod GameExamples
pub mod SecondPartition
