pub mod Runs
pub mod Report
pub mod ReportExamples
pub mod ReportLaws
