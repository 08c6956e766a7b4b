-- `apart::doubt_of_all` meets its contract. The invariant: where no position was found, the terms of the maps below the part are apart. The measure: each turn goes on to higher maps, or
-- to fewer of them. Assumes nothing.
use Prim.Native.Nat.{◌+◌, ◌*◌, ◌-◌, ◌≤◌}
use mathlib.Core.Path.{◌≡◌}
use lib.ListN.{length}
use Rattle.catalogue.specs.Terms.{term_count}
use Rattle.pool_faults.proofs.Taking.{ApartBelow}
use Rattle.pool_faults.proofs.apart.doubt_of_all.Given as goal

abbrev pub invariant-loop-no_room : goal.invariant-loop-no_room
invariant-loop-no_room l =
    (l.part.low ≤ l.part.high) × (l.part.high ≤ 18446744073709551615) × (l.doubt ≤ term_count l.terms) × (length l.maps ≡ length l.initial.maps) × (length l.keys ≡ length l.initial.keys) × (l.doubt ≡ term_count l.terms → ApartBelow l.terms l.part.low (term_count l.terms))

abbrev pub decreases-loop-no_room : goal.decreases-loop-no_room
decreases-loop-no_room l = 18446744073709551616 * (18446744073709551616 - l.part.low) + (l.part.high - l.part.low)
