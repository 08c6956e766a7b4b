-- `parents::find` meets its contract. The loop's invariant is `Finding`; the number reached falls with each turn, since a parent is no larger. Assumes nothing.
use native.Mathlib.Omega.{arith}
use mathlib.Core.Path.{refl}
use lib.ListN.{get_or, length-set}
use Rattle.parents.proofs.Finding.{Places, finding-starts, places, finding-goes_on, finding-ends}
use Rattle.parents.proofs.find.Goals as goal

pub loop-p-init : goal.loop-p-init
loop-p-init c = finding-starts _ _ _ refl

pub offset_bounds-parents-p : goal.offset_bounds-parents-p
offset_bounds-parents-p c =
    let at_places : Places c.requires c.loop-p.invariant = places c.requires c.loop-p.invariant in
    omega (arith, at_places.low, at_places.small)

pub bounds-parents-p : goal.bounds-parents-p
bounds-parents-p c =
    let at_places : Places c.requires c.loop-p.invariant = places c.requires c.loop-p.invariant in
    omega (arith, at_places.low, at_places.inside)

pub offset_bounds-parents-c-in-loop-p : goal.offset_bounds-parents-c-in-loop-p
offset_bounds-parents-c-in-loop-p c =
    let at_places : Places c.requires c.loop-p.invariant = places c.requires c.loop-p.invariant in
    omega (arith, at_places.small)

pub bounds-parents-c-in-loop-p : goal.bounds-parents-c-in-loop-p
bounds-parents-c-in-loop-p c =
    let at_places : Places c.requires c.loop-p.invariant = places c.requires c.loop-p.invariant in
    omega (arith, at_places.inside)

pub offset_bounds-parents-c-in-loop-p-2 : goal.offset_bounds-parents-c-in-loop-p-2
offset_bounds-parents-c-in-loop-p-2 c =
    let at_places : Places c.requires c.loop-p.invariant = places c.requires c.loop-p.invariant in
    let at = at_places in omega (arith, at.low, at.next, at.small)

pub bounds-parents-c-in-loop-p-2 : goal.bounds-parents-c-in-loop-p-2
bounds-parents-c-in-loop-p-2 c =
    let at_places : Places c.requires c.loop-p.invariant = places c.requires c.loop-p.invariant in
    let at = at_places in
    let l = c.loop-p in
    omega (arith, at.low, at.next, at.inside, length-set l.parents l.c (get_or l.parents l.p 0))

pub loop-p-smaller : goal.loop-p-smaller
loop-p-smaller c =
    let at_places : Places c.requires c.loop-p.invariant = places c.requires c.loop-p.invariant in
    let at = at_places in
    omega (arith, at.low, at.next, c.loop-p-test.true)

pub loop-p-preserved : goal.loop-p-preserved
loop-p-preserved c =
    finding-goes_on c.loop-p.invariant _ _ refl refl

pub shape_of-parents : goal.shape_of-parents
shape_of-parents c =
    let at_places : Places c.requires c.loop-p.invariant = places c.requires c.loop-p.invariant in
    at_places.long

pub returns : goal.returns
returns c = finding-ends c.loop-p.invariant c.loop-p-test.false
