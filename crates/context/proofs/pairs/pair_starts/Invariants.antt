-- `pairs::pair_starts` meets its contract. The invariant: of every context whose rows the list begins with, k is where span s begins, and the beginnings of the spans
-- passed are stored. Assumes nothing.
use Prim.Native.Nat.{ℕ, ◌≤◌, ◌<◌}
use mathlib.Core.Path.{◌≡◌}
use lib.ListN.{get_or}
use Rattle.definitions.specs.Context.{Context}
use Rattle.context.specs.Rows.{PairRows}
use Rattle.context.proofs.PairStarts.{before}
use Rattle.context.proofs.pairs.pair_starts.Given as goal

abbrev pub invariant-loop-s : goal.invariant-loop-s
invariant-loop-s l =
    (l.k ≤ l.rows) × ((C : Context) → PairRows C l.pairs l.rows l.count → (l.k ≡ before C l.s) × ((j : ℕ) → j < l.s → get_or l.start-items j 0 ≡ before C j))
