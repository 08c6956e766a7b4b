-- Orders, the stable sort, the greedy selection, ranks, pairs in ascending order.
pub mod StableSort
pub mod Selection
pub mod Choice
pub mod ListOrder
pub mod Orderings
pub mod Ranks
pub mod PairOrder
pub mod PairInsertion
pub mod Halving
pub mod PlacedInsertion
pub mod Endpoints
