-- `components::prepare` meets its contract. The invariant: the marks of the regions passed are stored. Assumes nothing.
use native.Mathlib.Omega.{arith}
use mathlib.Core.Path.{sym, subst}
use Rattle.parents.specs.Forest.{Forest}
use Rattle.interior_proposals.proofs.Preparing.{prepared, stored-front, front-length, front-beyond}
use Rattle.interior_proposals.proofs.components.prepare.Goals as goal

pub returns-clause-prepared : goal.returns-clause-prepared
returns-clause-prepared c =
    let inv = c.loop-k.invariant in
    let pre = c.requires in
    λ C e A I.
    prepared C (λ j h. stored-front _ _ pre.0 inv.0 (omega (arith, inv.0, c.loop-k-test.false)) inv.1 j (omega (arith, h, e))) (subst (λ n. Forest n (λ c. c) c.alone.new.parents) (sym e) c.alone.ensures.forest)
    (omega (arith, e, pre.0, front-length c.args.regions c.args.marks.now c.loop-k.mark-items pre.0 inv.0)) A I

pub returns-clause-beyond : goal.returns-clause-beyond
returns-clause-beyond c = (front-beyond c.args.regions c.args.marks.now c.loop-k.mark-items c.requires.0 c.loop-k.invariant.0, c.alone.ensures.beyond)
