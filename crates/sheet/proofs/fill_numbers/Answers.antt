-- `sheet::fill_numbers` meets its contract. The loop's invariant is `Filling`: storing the numbers that are left makes the list that is wanted. Where the loop is
-- left early, `fill_rest` stores them. Assumes nothing.
use Prim.Native.Nat.{◌-◌}
use native.Mathlib.Omega.{arith}
use mathlib.Core.Path.{sym, ap, ◌∙◌}
use Rattle.definitions.specs.SheetNumber.{number}
use Rattle.sheet.specs.Numbers.{values_at}
use Rattle.sheet.proofs.PutParts.{put_part, part_long}
use Rattle.laws.specs.SheetReading.SheetLaws.{keeps-number}
use Rattle.sheet.proofs.Filling.{held-length, filling_starts, filling_ends, filling_room, filling_held, filling_goes_on}
use Rattle.sheet.proofs.fill_numbers.Goals as goal

pub loop-i-init : goal.loop-i-init
loop-i-init c = filling_starts c.requires.0 c.requires.1

pub short_at-requires : goal.short_at-requires
short_at-requires c = filling_held c.loop-i.invariant c.loop-i-test.true

pub returns-in_default : goal.returns-in_default
returns-in_default c =
    let filling = c.loop-i.invariant in
    let long = part_long c.loop-i.out c.loop-i.i c.args.count filling.few (filling_room filling) in
    put_part c.loop-i.out (values_at number c.args.bytes.now c.loop-i.next (c.args.count - c.loop-i.i)) c.loop-i.i _ (sym (held-length filling.held)) (omega (arith, filling.few, filling_room filling))
    (c.fill_rest.ensures ∙ ap (values_at number c.args.bytes.now c.loop-i.next) long)
    ∙ filling.same

pub loop-i-preserved : goal.loop-i-preserved
loop-i-preserved c =
    filling_goes_on c.loop-i.invariant c.loop-i-test.true keeps-number c.in-Some.ensures

pub returns : goal.returns
returns c = filling_ends c.loop-i.invariant c.loop-i-test.false
