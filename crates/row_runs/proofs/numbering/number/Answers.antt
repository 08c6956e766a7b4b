-- `row_runs::numbering::number` meets its contract. The loop's invariant is `Numbering`; the measure is how many cells are left. Assumes nothing.
use native.Mathlib.Omega.{arith}
use mathlib.Core.Path.{refl}
use Rattle.row_runs.proofs.Numbers.{numbering_starts, numbering_goes_on, numbering_ends, end_more, end-inside, room, label-asked}
use Rattle.row_runs.proofs.numbering.number.Goals as goal

pub loop-c-init : goal.loop-c-init
loop-c-init c = numbering_starts _ _ _ _

pub label_at-label-requires : goal.label_at-label-requires
label_at-label-requires c =
    label-asked c.loop-c.invariant c.requires c.loop-c-test.true

pub put_alike-requires : goal.put_alike-requires
put_alike-requires c =
    let I = c.loop-c.invariant in
    let A = c.requires in
    let h = c.loop-c-test.true in
    (omega (arith, end_more I A h), omega (arith, end-inside I A h, room I A h))

pub loop-c-smaller : goal.loop-c-smaller
loop-c-smaller c =
    omega (arith, c.loop-c-test.true, end_more c.loop-c.invariant c.requires c.loop-c-test.true)

pub loop-c-preserved : goal.loop-c-preserved
loop-c-preserved c =
    numbering_goes_on c.loop-c.invariant c.requires c.loop-c-test.true refl c.label_at-label.ensures c.put_alike.ensures c.max-id.ensures

pub returns : goal.returns
returns c = numbering_ends c.loop-c.invariant c.loop-c-test.false refl
