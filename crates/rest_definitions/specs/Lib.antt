pub mod RowOrder
pub mod Rest
pub mod RestVerdict
pub mod RestExit
pub mod RestExamples
