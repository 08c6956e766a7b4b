-- What holds of one run, of the order of runs, of every report that runs were added to from the empty one, and of means.
pub mod OneRun
pub mod Named
pub mod Possible
pub mod Means
