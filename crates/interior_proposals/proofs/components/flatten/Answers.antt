-- `components::flatten` meets its contract. The invariant: in place of the parents of the regions up to k stand their names, and the others are as they were. Assumes nothing.
use Prim.Native.Nat.{◌+◌, ◌<◌}
use native.Mathlib.Omega.{arith}
use lib.ListN.{length}
use mathlib.Core.Path.{◌∙◌}
use Rattle.laws.specs.ListLaws.Beyond.{beyond-set, beyond-then}
use Rattle.interior_proposals.proofs.Forests.{own_name, parents_name, flat_more, flat-end}
use Rattle.interior_proposals.proofs.components.flatten.Goals as goal
use Rattle.interior_proposals.proofs.components.flatten.Goals.{then-p-k, else-p-k}

pub loop-k-preserved : goal.loop-k-preserved
loop-k-preserved c =
    let k = c.loop-k.k in
    let inv = c.loop-k.invariant in (
      omega (arith, c.loop-k-test.true),
      beyond-then inv.1 (beyond-set _ _ _ _ c.loop-k-test.true),
      λ cs P e.
          let F = inv.2 cs P e in
          let l : k + 1 < length cs = omega (arith, e, c.loop-k-test.true) in
          flat_more P F l c.if-p-k.name
          (elim c.if-p-k.branch [
            | then-p-k w ↦ w.name-is ∙ own_name P F l w.if-p-k.true
            | else-p-k w ↦ w.name-is ∙ parents_name P F l w.if-p-k.false
          ]),
    )

pub returns-clause-named : goal.returns-clause-named
returns-clause-named c =
    λ cs P e. flat-end P (c.loop-k.invariant.2 cs P e) c.loop-k-test.false e
