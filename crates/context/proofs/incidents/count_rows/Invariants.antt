-- `incidents::count_rows` meets its contract. The invariant: the list has counted the rows passed. Assumes nothing.
use Prim.Native.Nat.{◌≤◌}
use mathlib.Core.Path.{◌≡◌}
use Rattle.context.specs.Shown.{pairs_between}
use Rattle.context.specs.Packed.{count_pairs}
use Rattle.context.proofs.incidents.count_rows.Given as goal

abbrev pub invariant-loop-k : goal.invariant-loop-k
invariant-loop-k l =
    let rows = l.fn.rows in
    let k = l.k-iterator.start in
    (l.k-iterator.end ≡ rows.end) × (rows.start ≤ k) × (k ≤ rows.end) × (l.counts ≡ count_pairs l.span l.initial.counts (pairs_between l.pairs rows.start k))
