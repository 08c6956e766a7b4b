pub mod Distance
pub mod DistanceExamples
pub mod Listing
pub mod ListingExamples
pub mod PlaneLaws
pub mod ErrorLaws
pub mod ListingLaws
