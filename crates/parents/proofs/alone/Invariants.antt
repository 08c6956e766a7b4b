-- `parents::alone` meets its contract: the numbers before c are their own parents. Assumes nothing.
use Prim.Native.Nat.{ℕ, ◌<◌}
use mathlib.Core.Path.{◌≡◌}
use lib.ListN.{length, get_or}
use Rattle.parents.proofs.alone.Given as goal

abbrev pub invariant-loop-c : goal.invariant-loop-c
invariant-loop-c l = (length l.parent-items ≡ l.n) × ((d : ℕ) → d < l.c → get_or l.parent-items d 0 ≡ d)
