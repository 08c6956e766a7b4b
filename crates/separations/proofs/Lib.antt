pub mod Calls
pub mod ErrorLaws
pub mod PlaneLaws
pub mod Theorem
