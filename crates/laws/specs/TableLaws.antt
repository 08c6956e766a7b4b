-- The table of refusals: what an accepted call has passed.
pub mod AcceptedCalls
pub mod KeptRows
