-- `maps::put_maps` meets its contract. The invariant: the maps of the terms that were passed stand at the front. Assumes nothing.
use Rattle.pool_entries.proofs.Listing.{Putting}
use Rattle.pool_entries.proofs.maps.put_maps.Given as goal

abbrev pub invariant-loop-numbers : goal.invariant-loop-numbers
invariant-loop-numbers l = Putting l.fn.terms l.day l.initial.output l.output l.maps l.numbers-index
