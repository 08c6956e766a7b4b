-- `maps::spread_maps` meets its contract. The invariant: the entries from k on are written, and what lies in front is as it was. Assumes nothing.
use Prim.Native.Nat.{◌/◌}
use lib.ListN.{length}
use Rattle.pool_entries.proofs.Spreading.{Spreading}
use Rattle.pool_entries.proofs.maps.spread_maps.Given as goal

abbrev pub invariant-loop-k : goal.invariant-loop-k
invariant-loop-k l = Spreading (length l.initial.entries / 4) l.initial.entries l.entries l.k
