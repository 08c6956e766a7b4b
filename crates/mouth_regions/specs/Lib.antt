-- The words of the contracts of what is asked of inner regions.
pub mod Inner
pub mod Near
