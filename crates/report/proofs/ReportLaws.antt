-- What holds of one run, of the order of runs, of every report that runs were added to from the empty one, and of means.
pub mod Order
pub mod Reached
