-- `bests::renew` meets its contract. The invariant: what is passed is renewed, the rest is as before. Assumes nothing.
use Prim.Native.Nat.{ℕ, ◌≤◌, ◌<◌}
use mathlib.Core.Path.{◌≡◌}
use mathlib.Core.Bool.{false, cond}
use Rattle.std.specs.Prelude.{None}
use lib.ListN.{get_or}
use Rattle.mouth_selection.proofs.bests.renew.Given as goal

abbrev pub invariant-loop-a : goal.invariant-loop-a
invariant-loop-a l =
    (l.a ≤ l.count) × (((i : ℕ) → l.a ≤ i → get_or l.bests i None ≡ get_or l.initial.bests i None)
    × ((i : ℕ) → i < l.a → get_or l.bests i None ≡ cond (get_or l.ramp_ends i false) None (get_or l.initial.bests i None)))
