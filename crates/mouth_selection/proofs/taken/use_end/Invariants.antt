-- `taken::use_end` meets its contract. The invariant: the boundaries passed are marked where they are the end. Assumes nothing.
use Prim.Native.Nat.{ℕ}
use mathlib.Core.Path.{◌≡◌}
use mathlib.Core.Bool.{false}
use lib.ListN.{length, get_or}
use Rattle.mouth_selection.specs.Held.{end_mark}
use Rattle.mouth_selection.proofs.taken.use_end.Given as goal

abbrev pub invariant-loop-j : goal.invariant-loop-j
invariant-loop-j l = (length l.is_used-items ≡ l.context.count) × ((i : ℕ) → get_or l.is_used-items i false ≡ end_mark l.context.boundaries.now l.a l.j l.initial.is_used-items i)
