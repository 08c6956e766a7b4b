pub mod Answers
pub mod Delay
pub mod EntryLaws
pub mod RankLaws
pub mod Settled
pub mod Sweeps
pub mod Verdicts
pub mod Versus
