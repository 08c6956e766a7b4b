-- Merging, chains, regions, labels, components, the pairs of a span.
pub mod Merging
pub mod MergingInside
pub mod Chains
pub mod Steps
pub mod Regions
pub mod LabelsDetermined
pub mod Components
pub mod PairLaws
pub mod Edges
pub mod PairRows
pub mod Tallies
pub mod Shares
pub mod OneMore
